pub mod StreamBookOf
