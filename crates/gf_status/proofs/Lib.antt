pub mod LastLemmas
pub mod UnseenLemmas
pub mod HiddenLemmas
pub mod SetterLemmas
pub mod DifferingLemmas
pub mod CleanLemmas
pub mod StatusLemmas
mod JsonLemmas
pub mod SameStatusLemmas
pub mod KeptLemmas
