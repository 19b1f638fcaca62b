-- What plans keep.
pub mod Standing
