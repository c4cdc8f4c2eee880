pub mod FlagTables
pub mod EventTypes
pub mod MetadataTypes
pub mod BinlogVersions
