-- Laws about the sign of a step, about the frame of an active call, and about NEXT at the end of the range.
pub mod Laws
pub mod Loops
