-- Places: parts of dots, and the place of a dot. Search: the place of a dot among ascending ones. Inserting: a dot put in its place, in bytes.
pub mod Places
pub mod Search
pub mod Inserting
