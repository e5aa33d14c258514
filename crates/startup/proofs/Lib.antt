pub mod Startups
