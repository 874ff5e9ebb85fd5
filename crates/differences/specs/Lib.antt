-- Where a request departs from the Rust: the definition as it was, exactly when the new one differs, and that all else is as it was. One pair of rooms a request.
-- 2026-01, the doomed write
pub mod DoomedWrite
pub mod DoomedWriteLaws
-- 2026-02, eager populate by the access that a region grants
pub mod EagerAccess
pub mod EagerAccessLaws
