-- A fault on lent memory: each way gone as the model says.
pub mod Goes
pub mod GoesLaws
pub mod HandledLaws
