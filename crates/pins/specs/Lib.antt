-- What the cores of pin and unpin are proved by.
pub mod PinCallLaws
pub mod Unpins
pub mod UnpinsLaws
