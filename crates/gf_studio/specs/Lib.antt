pub mod Refusals
pub mod FigRun
pub mod PaintRun
pub mod PictureRun
pub mod PictureParts
pub mod InspectRun
pub mod RefusedRuns
pub mod RefusedParts
