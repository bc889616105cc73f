-- Left: what each call leaves. Promise: what each call promises.
pub mod Left
pub mod Promise
