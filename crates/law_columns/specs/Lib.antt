pub mod Stands
pub mod FollowsToo
pub mod ColumnLaws
pub mod Pages
pub mod BeginningLaws
pub mod BoundLaws
