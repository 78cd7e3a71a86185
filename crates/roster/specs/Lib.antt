pub mod Calling
pub mod Certificate
pub mod Cites
pub mod Lent
pub mod Running
pub mod Witnessing
pub mod Working
