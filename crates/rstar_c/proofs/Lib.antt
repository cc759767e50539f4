mod Equal
mod Listed
mod Puts
mod Rows
mod Values
mod Walks
