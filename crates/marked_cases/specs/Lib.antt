-- definitions
pub mod Trailer
pub mod OneFactLess
pub mod Cases
pub mod Checklist
pub mod Printed
-- computations
pub mod Yard
