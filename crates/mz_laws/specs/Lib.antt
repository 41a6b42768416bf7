pub mod examples
