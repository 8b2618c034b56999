-- Laws about steps that complete.
pub mod Became
pub mod Goes
pub mod Forms
pub mod Plain
pub mod Walking
pub mod Small
pub mod Data
pub mod Decoding
