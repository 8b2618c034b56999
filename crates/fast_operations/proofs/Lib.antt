-- Laws of the arms that compute.
pub mod OperationArms
pub mod Putting
