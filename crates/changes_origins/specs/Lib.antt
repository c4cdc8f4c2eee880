pub mod TaggedGtids
pub mod TaggedViews
pub mod MariadbGtids
pub mod MariadbViews
pub mod GtidJson
