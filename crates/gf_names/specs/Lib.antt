pub mod Telling
pub mod RisingIds
pub mod LastConflict
pub mod Lacking
pub mod Objects
pub mod Aiming
