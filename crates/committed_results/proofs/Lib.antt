pub mod Alike
pub mod Parts
pub mod RightKinds
pub mod SameParse
pub mod Standing
pub mod Taken
pub mod Whole
