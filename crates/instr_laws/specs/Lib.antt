pub mod Made
pub mod Behind
pub mod Forms
pub mod Laws
