pub mod Scopes
pub mod Headers
pub mod Bodies
pub mod Modules
pub mod PassedItems
pub mod Items
pub mod NamedTypes
pub mod Texts
