-- Sizes: how many bytes an image and its fields take. Writing: what the functions behind writing count on and leave. Loading: the same behind loading. Promise: what the two calls promise.
pub mod Sizes
pub mod Writing
pub mod Loading
pub mod Promise
