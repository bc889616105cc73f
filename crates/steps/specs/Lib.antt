-- Tests: what the steps test and count on.
pub mod Tests
