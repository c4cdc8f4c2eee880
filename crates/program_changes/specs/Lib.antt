pub mod FollowedLineLaws
pub mod FollowedLines
pub mod PrintedAnswers
pub mod LineSinks
pub mod CountSinks
pub mod SchemaPlaces
