pub mod Actions
pub mod Numbers
pub mod Reader
pub mod Reading
pub mod Words
pub mod Written
