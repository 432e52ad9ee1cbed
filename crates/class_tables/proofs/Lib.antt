mod Searching
mod Setting
