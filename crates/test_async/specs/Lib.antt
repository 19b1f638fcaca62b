pub mod Meanwhile
