pub mod ListLemmas
pub mod FilterLemmas
pub mod PositionLemmas
pub mod RisingLemmas
pub mod InsertLemmas
pub mod PairLemmas
pub mod CountLemmas
