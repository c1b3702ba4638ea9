pub mod Alike
pub mod Answered
pub mod Apart
pub mod Back
pub mod Below
pub mod ByHand
pub mod ByValue
mod Common
pub mod Counts
pub mod Equivalence
pub mod Exactly
pub mod FieldsByName
pub mod FieldsTold
pub mod Flat
pub mod Found
pub mod HashedSets
pub mod InOrder
pub mod Keys
pub mod KeysTold
pub mod LeftOut
pub mod Lists
pub mod Maps
pub mod MapsRead
pub mod MapsTold
pub mod Members
pub mod OneAnswer
pub mod Ordered
pub mod Pairs
pub mod Puts
pub mod Results
pub mod Rules
pub mod Same
pub mod Sets
pub mod SetsRead
pub mod SetsTold
pub mod Structs
pub mod TypesByHand
pub mod WellKeyed
pub mod Scalars
mod ReadRows
mod ShapeRows
mod RulesRows
