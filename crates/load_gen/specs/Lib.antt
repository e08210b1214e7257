pub mod Numbers
pub mod Module
pub mod Profile
