pub mod LatencyPictures
pub mod SeriesPictures
pub mod TracePictures
