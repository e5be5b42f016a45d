pub mod ValueTypes
