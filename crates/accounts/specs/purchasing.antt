pub mod Buying
