use Rattle.mz_select.proofs.listings.plain.Goals as goal

-- the place is looked for among the keys
pub returns-in-Some : goal.returns-in-Some
returns-in-Some c =
    let place = rw (c.place.ensures, c.as_slice.ensures) at c.position.ensures in
    rw c.in-Some.is (rw place at c.key_at.ensures)
