-- nothing to believe: this proves that the rule keeps the laws, and of its own crate an impl may cite only specs/
pub mod Turning
