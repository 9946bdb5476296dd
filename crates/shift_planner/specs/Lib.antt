pub mod Shift
pub mod ShiftLaws
