pub mod SelfTests
