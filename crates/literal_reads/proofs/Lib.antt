pub mod KeyPlaces
pub mod LiteralTypes
pub mod Lists
pub mod Missing
pub mod ObjectsAmong
pub mod PropPlaces
