-- Listings: the lines of entries, and their bytes. ListedKeys: a walk over keys. LineWalks: a walk over the keys of one label. Folds: lines one after the other.
pub mod Listings
pub mod ListedKeys
pub mod LineWalks
pub mod PutLines
pub mod Folds
