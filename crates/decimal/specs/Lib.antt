pub mod Reading
pub mod Words
pub mod Scaled
pub mod Printed
pub mod RoundTrip
pub mod Examples
