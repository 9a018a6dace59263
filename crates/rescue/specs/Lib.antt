pub mod salvaging
