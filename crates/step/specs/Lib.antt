-- From the core of each call to one step of the model; which variant an answer has.
pub mod Kind
pub mod KindLaws
pub mod StepLaws
