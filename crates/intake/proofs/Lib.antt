-- TakeIn: what the tests tell, and what an accepted message leaves.
pub mod TakeIn
