pub mod OneByOne
pub mod Laws
