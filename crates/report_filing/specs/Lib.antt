pub mod Filing
