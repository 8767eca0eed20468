pub mod Counts
pub mod FaultLaws
pub mod LineLaws
pub mod PutLaws
pub mod RoomLaws
pub mod SizeLaws
