pub mod StandsLemmas
