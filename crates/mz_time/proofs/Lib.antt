pub mod FrontierLemmas
