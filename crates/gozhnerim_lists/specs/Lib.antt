pub mod Requests
pub mod Lists
