pub mod NetPrices
