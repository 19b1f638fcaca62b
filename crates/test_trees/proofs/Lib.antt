pub mod NamedApart
