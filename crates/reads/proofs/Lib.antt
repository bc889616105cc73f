-- ReadCalls: listing and lookup of an undamaged state. PageStarts: where a page starts. MergeCalls: merged read.
pub mod ReadCalls
pub mod PageStarts
pub mod PageCalls
pub mod MergeCalls
