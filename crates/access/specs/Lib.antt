-- What loads and stores are proved by.
pub mod MappedFrameLaws
pub mod Granted
pub mod AccessLaws
