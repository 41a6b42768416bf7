use Rattle.mz_dataflow.proofs.dataflow.Dataflow.offer.Goals as goal

-- it stands for what it stood for
pub returns-clause-stands : goal.returns-clause-stands
returns-clause-stands c = λ plan us s. record { stands = s.stands; listed = c.add_offer.ensures.once s.listed }
