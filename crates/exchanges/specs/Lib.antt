pub mod Exchanges
pub mod Spans
pub mod Offers
pub mod StepsToward
