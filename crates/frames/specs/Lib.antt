-- What the contracts cite, then laws about it.
pub mod PutBytes
pub mod PutBytesLaws
pub mod FrameLaws
