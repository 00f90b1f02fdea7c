-- What stands on a page.
pub mod Shown
